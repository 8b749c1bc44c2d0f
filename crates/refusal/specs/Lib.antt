-- The numbers of document 01 that refuse a call, and what a call returns that writes.
pub mod Numbers
pub mod Written

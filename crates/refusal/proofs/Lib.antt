-- That a number tells its refusal, and one of a call that writes that it was taken.
pub mod Numbers
pub mod Written

-- What the contracts of `cases` mean.
pub mod First

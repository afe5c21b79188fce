mod Fitting
mod Rounding
mod Dividing
mod Multiplying

mod Places
mod Rules
mod Narrowing
mod Fitting
mod Loops
mod Numbers
mod Agreeing

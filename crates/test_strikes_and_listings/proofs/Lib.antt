-- What is said between the calls.
mod Calls

-- What is left to say between two calls.
mod Calls

mod Printing
mod Refusal

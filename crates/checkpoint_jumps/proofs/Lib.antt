mod Totals
mod Adding
mod Taking
mod Jumping
mod Bounds

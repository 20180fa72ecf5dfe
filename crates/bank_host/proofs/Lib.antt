mod WellFormed
mod Changing
mod Guarding
mod Answering

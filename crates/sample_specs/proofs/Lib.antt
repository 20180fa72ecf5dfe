mod Below
mod Names
mod WellFormed

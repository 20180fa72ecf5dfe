mod Wholes
mod Same
mod Drops

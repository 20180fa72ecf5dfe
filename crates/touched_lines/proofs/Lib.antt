mod Staying
mod Spanning
mod Touching

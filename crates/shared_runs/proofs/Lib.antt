mod Extending
mod Leaving

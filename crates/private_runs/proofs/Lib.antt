mod Extending
mod Telling

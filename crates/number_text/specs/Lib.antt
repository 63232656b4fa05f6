pub mod ShortHex

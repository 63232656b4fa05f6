pub mod FreePasses
pub mod ShelfLemmas
pub mod TurnLemmas
pub mod BothLemmas
pub mod TapeLemmas
pub mod ParcelLemmas

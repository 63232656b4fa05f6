pub mod ImageLaws
pub mod KeptProofs
pub mod LawProofs
pub mod LoadLaws
pub mod Numbers
pub mod Pairs
pub mod RuleLaws
pub mod Table

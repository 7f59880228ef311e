pub mod AloneReads
pub mod Among
mod Clash
mod ConflictExamples
mod ExampleParts
pub mod Growth
pub mod LegalLaws
mod LevelExamples
mod ManyOpen
pub mod Open
pub mod Places
mod ReplyExamples
mod SerialAlike
mod SerialBlock
mod SerialCover
mod SerialExamples
pub mod SerialJournals
mod SerialOrder
mod SerialParts
pub mod Turns
mod Views

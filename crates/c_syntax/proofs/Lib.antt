mod Worked
mod Told
mod Groups
mod Parts
mod Nodes
mod Rows
mod Climbs
mod Expressions
mod Declarators
mod Heads
mod Words
mod Params
mod Statements
mod BlockItems
mod External
mod Sorts
pub mod Sound
mod WorkedTrees

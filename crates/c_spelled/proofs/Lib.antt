mod Off
pub mod Opens
mod LeveledRows
mod Rows
pub mod Begins
mod Turns
mod Groups
mod Pieces
mod Shapes
pub mod Alone
mod Nodes
mod Parts
mod Params
mod Levels
mod Climb
mod Operands
mod Exps
mod Balance
mod Heads
mod Declarators
mod Abstracts
mod ParamDeclarators
mod MemberNames
mod Stmts
mod Blocks
mod AtFirst
mod Sorts
mod Depths
mod Items
pub mod Complete
pub mod Unique

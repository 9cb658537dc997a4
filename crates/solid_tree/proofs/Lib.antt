mod Trees
mod Lists
mod UnionLaws
mod Rounds
mod Shrinks
mod ElementLaws
pub mod Far
mod Nudges
mod Tight
mod Kept
mod OneMeaning

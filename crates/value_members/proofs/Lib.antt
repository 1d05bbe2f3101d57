mod Indexes
mod NewMembers
mod Ties
mod Lengths

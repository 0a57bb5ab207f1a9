mod Refused
mod Works
mod Nexts
mod Counts
mod Steps
mod Blank
mod BlankBlocks

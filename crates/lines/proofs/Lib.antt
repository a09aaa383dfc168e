mod Answered
mod Feeding
mod Names
mod Reading
mod Spelling

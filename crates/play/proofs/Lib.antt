mod Calls
mod Input

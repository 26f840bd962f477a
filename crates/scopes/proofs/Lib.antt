mod Walks
mod Worked

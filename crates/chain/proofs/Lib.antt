mod Walks
mod Linking
mod Inside
mod Putting
mod Unchanged

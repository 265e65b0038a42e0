mod Behind
mod Counting
mod Made

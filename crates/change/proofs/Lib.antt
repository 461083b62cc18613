mod Growth
mod Marks
mod Putting
mod Outcomes

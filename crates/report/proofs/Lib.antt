mod Booked
mod Blank

-- How the code keeps its lists and adds up: nothing here defines what is right.
pub mod Starts
pub mod Worked
pub mod Doing
pub mod Gathering

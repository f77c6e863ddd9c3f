-- The rule of a deque with one owner and one thief, and what its ends know.
pub mod Rule
pub mod Ends

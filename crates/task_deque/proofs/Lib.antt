-- Each step keeps the rule.
pub mod Steps

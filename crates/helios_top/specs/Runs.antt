-- One page for each command: what a run of it does.
pub mod Audit
pub mod Check
pub mod Dump
pub mod History
pub mod Plan
pub mod Replay
pub mod Trial
pub mod Weigh

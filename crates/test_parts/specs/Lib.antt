-- Ports over memory that fail on purpose.
pub mod FaultyPorts

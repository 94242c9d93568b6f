pub mod Source
pub mod Sets
pub mod Queue
pub mod QueueAnswers
pub mod Numbers
pub mod Queues

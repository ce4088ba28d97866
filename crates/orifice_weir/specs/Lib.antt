pub mod Heads
pub mod OrificeFlow
pub mod Submergence
pub mod WeirFlow

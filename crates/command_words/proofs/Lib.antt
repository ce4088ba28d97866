mod Bridge
mod Looks
mod Rules
mod States
mod Turns
mod ValueLemmas

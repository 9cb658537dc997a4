mod Voided
mod Few

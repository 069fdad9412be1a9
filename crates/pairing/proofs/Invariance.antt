-- What a pairing does not depend on: indices, free tracks that are struck, keys in the same order.
pub mod Struck
pub mod Restricted
pub mod Rekeyed
pub mod Agreeing

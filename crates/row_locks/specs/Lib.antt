pub mod Sets
pub mod Holders
pub mod LockKeys
pub mod HolderIndex
pub mod Locks
pub mod LockTable
pub mod Alike

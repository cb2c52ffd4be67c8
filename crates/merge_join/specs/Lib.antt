pub mod Join
pub mod JoinedArrays
pub mod ClearedLaws

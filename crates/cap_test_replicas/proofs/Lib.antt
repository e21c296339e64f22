pub mod ReplicaLemmas

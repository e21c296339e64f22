pub mod Convergence

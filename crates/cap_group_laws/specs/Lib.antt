pub mod OneEach

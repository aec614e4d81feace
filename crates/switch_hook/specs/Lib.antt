pub mod Hook

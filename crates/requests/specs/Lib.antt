pub mod Values
pub mod Keys
pub mod Configurations
pub mod Reports
pub mod Programs
pub mod Layouts
pub mod Transitions
pub mod Asking

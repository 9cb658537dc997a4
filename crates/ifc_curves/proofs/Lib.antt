mod Joints
pub mod Outlined

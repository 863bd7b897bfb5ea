-- Laws of the words. No contract cites these files.
pub mod ByteLaws
pub mod RowLaws
pub mod CounterLaws
pub mod CountLaws
pub mod ViewLaws
pub mod OnlyLaws
pub mod SettlingLaws
pub mod KeepLaws
pub mod SetLaws
pub mod KindLaws
pub mod EachLaws
pub mod BeginningLaws
pub mod ControlLaws
pub mod TestLaws
pub mod WholeLaws

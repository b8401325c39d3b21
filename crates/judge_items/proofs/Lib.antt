pub mod CallLaws
pub mod OneLaws
pub mod ListLaws
pub mod ValueLaws

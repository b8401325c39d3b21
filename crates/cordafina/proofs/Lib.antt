pub mod FaceLaws
mod HeadLaws
mod ContextLaws
mod RowLaws

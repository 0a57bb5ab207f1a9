pub mod CrewLaws
pub mod FreeNumbers
pub mod Fresh
pub mod Laws
pub mod LineLaws
pub mod Numbers

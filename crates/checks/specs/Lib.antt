-- Rows 5 to 15 in one call. First the definitions that contracts cite, then laws.
pub mod Names
pub mod Column
pub mod StoredLinks
pub mod Elsewhere
pub mod Stages
pub mod NameLaws
pub mod ColumnLaws
pub mod ClimbLaws
pub mod OpenSteps
pub mod OrderSteps
pub mod RestSteps
pub mod StageLaws
pub mod IdsSteps
pub mod LinksSteps
pub mod PlanSteps
pub mod OpenCount

mod Lookups
mod NumberLaws
mod Distinct
mod Made
mod Going

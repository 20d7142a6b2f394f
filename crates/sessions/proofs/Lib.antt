mod Workers
mod Jobs
mod Places
mod Firsts
mod Feeds
mod Reasons
mod Countable
mod LogOrders

mod Pushing
mod Accounts

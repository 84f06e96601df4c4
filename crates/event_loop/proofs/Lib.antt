mod Logs
mod Living
mod Keeping

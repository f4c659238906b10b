mod Telling
mod Trying

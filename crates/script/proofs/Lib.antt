mod Behind
mod Fit
mod LineFeeds
mod OneByOne

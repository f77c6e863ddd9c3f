-- What holds of results.
mod Results
